pub mod Loading
pub mod OneReply
