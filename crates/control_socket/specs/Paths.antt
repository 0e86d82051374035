-- The names of files that belong to the socket at a path.
use Rattle.std.specs.Prelude.{ℕ, List, [], ◌∷◌, ◌++◌, codes, Option, Some, None}
use Rattle.std.specs.Path.{path_parent}

-- the folder that this parent of a path names; if it is missing or empty, the process's own folder
abbrev pub folder_of : Option (List ℕ) → List ℕ
folder_of None = codes "."
folder_of (Some []) = codes "."
folder_of (Some (byte ∷ bytes)) = (byte ∷ bytes) ++ codes "/."

-- the folder of the path, under a name that only a folder can have
abbrev pub folder_at : List ℕ → List ℕ
folder_at path = folder_of (path_parent path)

-- the folder in which the socket is made: the path, a dot and some digits
abbrev pub folder_named : List ℕ → List ℕ → List ℕ
folder_named path digits = path ++ (codes "." ++ digits)

-- the socket in that folder
abbrev pub socket_in : List ℕ → List ℕ
socket_in folder = folder ++ codes "/s"
