pub mod Pairs
pub mod Moves
pub mod Services
pub mod Placing
pub mod Near
pub mod Held
pub mod Stale
pub mod EitherWay
