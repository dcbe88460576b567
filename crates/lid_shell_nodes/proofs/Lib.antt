mod Places
mod Origins
mod Tokens
mod Following
