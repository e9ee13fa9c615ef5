-- The forms of a line behind the set-up lines: a keyword, and the kinds of the words behind it.
--
--     memory NODE BYTES            nread NODE DEST ADDR SIZE
--     nwrite NODE DEST ADDR HEX    nwriter NODE DEST ADDR HEX
--     swrite NODE DEST ADDR HEX    round
use Rattle.std.specs.Prelude.{ℕ, List, [], ◌∷◌, codes}
use Rattle.io_script.specs.declared.forms.IoForm.{IoForm}
use Rattle.io_script.specs.declared.forms.IoForm.TheVariants.{Memory, NRead, NWrite, NWriteR, SWrite, Round}

-- The kinds of words: an endpoint, the number of a device, how many bytes a memory has, how many a
-- read asks for, an address, the data of a write, and those of a streaming write.
pub data IoField : Type 0 where
  AnEndpoint : IoField
  DeviceNumber : IoField
  MemorySize : IoField
  ReadSize : IoField
  Address : IoField
  Data : IoField
  StreamData : IoField

abbrev pub io_keyword_of : IoForm → List ℕ
io_keyword_of Memory = codes "memory"
io_keyword_of NRead = codes "nread"
io_keyword_of NWrite = codes "nwrite"
io_keyword_of NWriteR = codes "nwriter"
io_keyword_of SWrite = codes "swrite"
io_keyword_of Round = codes "round"

abbrev pub io_fields_of : IoForm → List IoField
io_fields_of Memory = AnEndpoint ∷ MemorySize ∷ []
io_fields_of NRead = AnEndpoint ∷ DeviceNumber ∷ Address ∷ ReadSize ∷ []
io_fields_of NWrite = AnEndpoint ∷ DeviceNumber ∷ Address ∷ Data ∷ []
io_fields_of NWriteR = AnEndpoint ∷ DeviceNumber ∷ Address ∷ Data ∷ []
io_fields_of SWrite = AnEndpoint ∷ DeviceNumber ∷ Address ∷ StreamData ∷ []
io_fields_of Round = []
