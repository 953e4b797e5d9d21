mod OneReading
mod OneCourse
mod OneAnswer
mod SomeText
mod SomeAnswer
mod Stays
mod BothWorks
mod Classes
mod Mapped
mod Opened
pub mod CanBegin
