-- Laws of the writers' rows, of what they write and how that is read; then their claims.
pub mod WritingLaws
pub mod WrittenBack
pub mod ReadAgain
pub mod Claims
pub mod EdgeTable
