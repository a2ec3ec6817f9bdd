mod TableLaws
pub mod RangeLaws
mod BookLaws
mod FreeLaws
pub mod NameLaws
pub mod Changes
pub mod Partners
