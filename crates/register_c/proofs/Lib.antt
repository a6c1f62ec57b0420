-- What a catalogue's answer tells, and that a refusal is packed alike in every call.
pub mod Counts
pub mod Refused
