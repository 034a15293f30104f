pub mod Former
pub mod NoRoom
