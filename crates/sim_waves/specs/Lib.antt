pub mod Waveform
pub mod Calendar
