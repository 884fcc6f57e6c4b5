-- The laws of the writer's calls.
pub mod WriteLaws
pub mod PlaneLaws
pub mod OutcomeLaws
pub mod RoundTrip
