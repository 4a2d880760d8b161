mod Acting
mod Limits
mod Parts
