pub mod Word
pub mod WordLaws
pub mod Row
pub mod RowLaws
pub mod Value
pub mod ValueLaws
