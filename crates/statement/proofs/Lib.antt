mod Issues
mod Metered
mod Unissued
mod Wholes
mod Texts
