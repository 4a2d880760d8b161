-- How errors are printed. (Our own.)
use Rattle.std.specs.Prelude.{ℕ, List, ◌++◌, codes, decimal}
use Rattle.hd_journal.specs.declared.error.JournalError.{JournalError}
use Rattle.hd_journal.specs.declared.error.JournalError.TheVariants.{NotAJournal, OtherTask, Damaged, Device, Failed, JournalExists, NotOut, NoMemory}
use Rattle.hd_image.specs.declared.error.ImageError.{ImageError}
use Rattle.hd_image.specs.declared.error.ImageError.TheVariants as image
use Rattle.hd_store.specs.declared.error.StoreError.{StoreError}
use Rattle.hd_store.specs.declared.error.StoreError.TheVariants as store

-- the printed form: the refusal's number, its name, and the place in decimal (a rule of this
-- project)
abbrev pub text_of : JournalError → List ℕ
text_of NotAJournal = codes "32 NotAJournal"
text_of OtherTask = codes "33 OtherTask"
text_of (Damaged at) = codes "34 Damaged(" ++ decimal at ++ codes ")"
text_of Device = codes "35 Device"
text_of Failed = codes "36 Failed"
text_of JournalExists = codes "37 JournalExists"
text_of NotOut = codes "38 NotOut"
text_of NoMemory = codes "NoMemory"

-- what is said of a file's bytes
abbrev pub of_image : ImageError → JournalError
of_image image.NotAJournal = NotAJournal
of_image image.OtherTask = OtherTask
of_image (image.Damaged at) = Damaged at
of_image image.NoMemory = NoMemory

-- what is said of a store that failed
abbrev pub of_store : StoreError → JournalError
of_store store.NoMemory = NoMemory
of_store store.Failed = Device
