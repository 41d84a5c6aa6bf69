-- What a book held at some moment.
use Rattle.std.specs.Prelude.{◌≡◌, take, vec_items}
use Rattle.book.specs.declared.book.Book.{Book}
use Rattle.book.specs.declared.book.snapshot.Snapshot.{Snapshot}

-- the snapshot shows the book as it is: its lines and its last number
pub record Shows (s : Snapshot) (b : Book) : Type 0 where
  pub lines : vec_items b.table.lines ≡ take s.count s.lines
  pub last : b.last ≡ s.last

-- two books mean the same: they have the same lines and the same last number
pub record Same (b b' : Book) : Type 0 where
  pub lines : vec_items b'.table.lines ≡ vec_items b.table.lines
  pub last : b'.last ≡ b.last
