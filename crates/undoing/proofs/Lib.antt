pub mod UndoLaws
pub mod RowLaws
pub mod DownLaws
pub mod StageLaws
pub mod LevelLaws
pub mod GreenLaws
