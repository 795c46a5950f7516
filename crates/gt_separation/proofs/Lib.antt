mod Apart
mod Separate
mod SameParts
mod LowCalls
