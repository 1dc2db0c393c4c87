pub mod Holding
pub mod Same
pub mod Traps
pub mod Reading
pub mod EachKind
pub mod FromFn
