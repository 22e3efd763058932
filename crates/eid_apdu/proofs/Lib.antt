pub mod Chains
pub mod JoinedRequest
pub mod OneCommand
pub mod Tails
pub mod Written
pub mod OneReply
