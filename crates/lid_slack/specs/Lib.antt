pub mod Slack
pub mod Told
pub mod Trials
pub mod Laws
pub mod Labelled
