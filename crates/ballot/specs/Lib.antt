-- Who owns a ballot, and the least own ballot above another.
pub mod Ballot
pub mod Least
