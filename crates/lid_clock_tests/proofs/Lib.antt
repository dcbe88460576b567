mod Living
mod Feeding
