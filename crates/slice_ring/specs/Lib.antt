pub mod Ticket
pub mod Rule
pub mod Steps
pub mod Seats
pub mod Core
