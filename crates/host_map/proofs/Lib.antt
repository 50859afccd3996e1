mod StoreMaps
