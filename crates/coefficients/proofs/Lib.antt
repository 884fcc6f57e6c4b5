pub mod TogetherLaws
