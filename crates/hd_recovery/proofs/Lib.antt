mod Leading
mod Opening
mod Parts
mod Teams
mod Truth
