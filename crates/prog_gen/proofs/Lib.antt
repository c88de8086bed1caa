mod Seeds
mod Added
mod OneFile
mod Sizes
