pub mod InLine
pub mod Composed
pub mod Standing
pub mod RowLemmas
pub mod ObjectLemmas
