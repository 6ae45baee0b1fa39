mod Walking
mod Stepping
mod Same
mod Codes
mod Closes
mod Rounds
