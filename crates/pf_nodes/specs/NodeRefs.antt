-- Where nodes lie.
use Rattle.std.specs.Prelude.{◌≡◌, Bool, true, false, ◌&&◌, ◌==◌, List, Some}
use Rattle.std.specs.Map.{lookup}
use denote.RawPtr.{Ptr, block_ptr, null_ptr}
use Rattle.pf_nodes.specs.declared.raw.NodeRef.{NodeRef}

-- whether two pointers are the same
abbrev pub same_ptr : Ptr → Ptr → Bool
same_ptr (block_ptr b o) (block_ptr c p) = (b == c) && (o == p)
same_ptr (block_ptr b o) null_ptr = false
same_ptr null_ptr (block_ptr c p) = false
same_ptr null_ptr null_ptr = true

-- whether a pointer is that of the reference
abbrev pub same_node_ref : NodeRef → Ptr → Bool
same_node_ref node_ref p = same_ptr node_ref.ptr p

-- something lies at the reference
abbrev pub IsNodeRef : {X : Type 0} → List (Ptr × X) → NodeRef → Type 0
IsNodeRef {X} items node_ref = (x : X) × (lookup (same_node_ref node_ref) items ≡ Some x)
