pub mod LiftLaws
