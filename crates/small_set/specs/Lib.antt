pub mod SmallSet
