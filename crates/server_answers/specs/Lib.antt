pub mod CommandText
