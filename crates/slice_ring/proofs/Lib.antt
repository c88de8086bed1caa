mod CoreMoves
mod Leads
mod Looks
mod Readings
mod Starts
mod Stays
mod Turns
mod Workers
