mod Known
mod Turns
mod KnownParts
mod Taking
