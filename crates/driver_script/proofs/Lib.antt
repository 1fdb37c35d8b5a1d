mod OneKey
mod OtherForms
mod PlannedResults
mod Readings
mod Schedules
