-- What a storing operation stores at D.
use Rattle.std.specs.Prelude.{ℕ}
use Rattle.base_words.specs.declared.op.store.Store.{Store}
use Rattle.base_words.specs.declared.op.store.Store.TheVariants.{Lower, Upper, DataAddress}
use Rattle.base_words.specs.declared.op.store.Store.TheVariants.{InstructionAddress, Distributor}

-- the number of the operation that stores it
abbrev pub number_of : Store → ℕ
number_of Lower = 20
number_of Upper = 21
number_of DataAddress = 22
number_of InstructionAddress = 23
number_of Distributor = 24
