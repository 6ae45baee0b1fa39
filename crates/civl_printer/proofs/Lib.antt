mod Joining
mod Reading
