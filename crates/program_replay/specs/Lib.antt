pub mod Begun
pub mod Coverage
pub mod CoverageOf
pub mod Following
pub mod Given
pub mod Replay
pub mod RunReply
