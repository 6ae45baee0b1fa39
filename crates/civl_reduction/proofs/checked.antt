mod Checking
mod Listing
