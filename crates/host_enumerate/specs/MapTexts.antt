-- The lines of a map, and the line of a device that another host holds.
use Rattle.std.specs.Prelude.{ℕ, List, [], ◌∷◌, ◌++◌, codes}
use Rattle.std.specs.List.{flat_map}
use Rattle.std.specs.Fmt.{decimal}
use Rattle.fabric_map.specs.declared.map.Kind.{Kind}
use Rattle.fabric_map.specs.declared.map.Kind.TheVariants.{Endpoint, Switch}
use Rattle.fabric_map.specs.declared.map.Device.{Device}
use Rattle.fabric_map.specs.declared.map.Entry.{Entry}

-- a number behind a space
abbrev pub spaced : ℕ → List ℕ
spaced number = codes " " ++ decimal number

-- a port behind a point
abbrev pub port_behind_point : ℕ → List ℕ
port_behind_point port = codes "." ++ decimal port

-- the ports of a path with points between them; the path of the host has none
abbrev pub path_text : List ℕ → List ℕ
path_text [] = codes "host"
path_text (port ∷ ports) = decimal port ++ flat_map port_behind_point ports

-- the ID of an endpoint, or how many ports a switch has
abbrev pub kind_text : Kind → List ℕ
kind_text (Endpoint id) = codes " endpoint" ++ spaced id
kind_text (Switch ports entry) = codes " switch" ++ spaced ports

abbrev pub device_text : Device → List ℕ
device_text device = codes "device " ++ decimal device.tag ++ kind_text device.kind ++ codes " "
    ++ path_text device.path ++ codes "\n"

abbrev pub entry_text : Entry → List ℕ
entry_text entry = codes "entry " ++ decimal entry.tag ++ spaced entry.id ++ spaced entry.port
    ++ codes "\n"

-- a line for each device, and one for each entry
abbrev pub map_text : List Device → List Entry → List ℕ
map_text devices entries = flat_map device_text devices ++ flat_map entry_text entries

-- the device on this path has the lock of the host with this ID
abbrev pub locked_text : List ℕ → ℕ → List ℕ
locked_text path id =
    codes "locked " ++ path_text path ++ codes " " ++ decimal id ++ codes "\n"
