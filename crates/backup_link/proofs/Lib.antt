mod Backups
mod Dials
mod Heads
mod Keeps
mod LevelNames
mod Requests
mod Streams
mod Talking
