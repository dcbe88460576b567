mod Endings
mod Fitted
mod Lives
mod Ones
mod Standing
mod Summaries
