mod Ranges
mod Pieces
