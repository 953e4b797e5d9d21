mod Crosses
mod Links
