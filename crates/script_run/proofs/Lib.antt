mod Made
mod Pieces
