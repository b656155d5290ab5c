pub mod Numbers
pub mod NumbersLaws
pub mod Script
pub mod Sizes
