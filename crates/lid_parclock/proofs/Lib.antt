pub mod InShares
