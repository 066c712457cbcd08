mod Putting
mod Lines
mod Widths
