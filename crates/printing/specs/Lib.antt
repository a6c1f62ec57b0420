-- The hoard list: what it is, the call, what a printer may rely on, and the keys by which the code orders.
pub mod HoardList
pub mod Call
pub mod Promise
pub mod Keys
