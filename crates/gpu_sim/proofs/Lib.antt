mod Slots
mod Scripts
