-- The laws of recovery in the work slice.
pub mod LevelLaws
pub mod IndexLaws
pub mod Rooms
pub mod PlaneLaws
pub mod DetailLaws
pub mod RecoverLaws
