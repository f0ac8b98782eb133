-- The keys by which links and class links are held against one another. Leans on meaning's Register.
use Rattle.std.specs.Prelude.{ℕ, ◌+◌, ◌*◌}
use Rattle.meaning.specs.Register.{Link}

-- a link's key, once f has given each of its ends a class: `link_key` for the class links themselves
unfoldable pub key_by : (ℕ → ℕ) → Link → ℕ
key_by f a = (f a.source * 65536 + a.label) * 65536 + f a.target
