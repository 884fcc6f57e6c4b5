pub mod InspectLaws
