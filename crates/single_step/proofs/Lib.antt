pub mod AcceptedSheet
mod StepPromised
