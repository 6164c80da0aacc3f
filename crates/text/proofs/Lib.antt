pub mod GatheredLaws
pub mod DecimalLaws
pub mod Examples
pub mod SentenceLaws
