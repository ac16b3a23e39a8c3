mod Reading
mod Running
mod Stretching
