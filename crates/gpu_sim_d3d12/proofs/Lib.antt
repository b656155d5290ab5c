mod Releases
mod Scripts
