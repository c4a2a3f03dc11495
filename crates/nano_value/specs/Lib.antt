-- what values mean, passed on
pub use Rattle.nano_meaning.specs.Meaning
pub use Rattle.nano_meaning.specs.Tables
pub use Rattle.nano_meaning.specs.Collected
pub use Rattle.nano_meaning.specs.Sets
pub use Rattle.nano_meaning.specs.Ordered
pub use Rattle.nano_meaning.specs.Order
pub use Rattle.nano_meaning.specs.Sums
